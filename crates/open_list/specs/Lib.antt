-- The list of open records.
pub mod Entries
