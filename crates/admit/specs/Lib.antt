-- What stands before every call on a book and a choice.
pub mod Admits
