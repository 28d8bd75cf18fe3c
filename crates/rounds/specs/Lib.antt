-- The round rule.
pub mod Records
pub mod Rounds
pub mod Insertion
pub mod Right
