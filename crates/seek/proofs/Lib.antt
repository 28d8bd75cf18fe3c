-- Laws of the seed search.
pub mod Branches
pub mod Below
