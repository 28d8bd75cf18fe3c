-- What explaining a choice answers.
pub mod Explains
