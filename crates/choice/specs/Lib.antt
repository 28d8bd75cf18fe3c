-- What code asks of a choice.
pub mod Groups
