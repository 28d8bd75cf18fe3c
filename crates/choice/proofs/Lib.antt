-- Laws of choices in code.
pub mod Groups
