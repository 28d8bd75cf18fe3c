-- What asking about a choice answers.
pub mod Asks
