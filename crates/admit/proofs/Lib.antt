-- Laws of what stands before a call on a book and a choice.
pub mod Admits
