-- Laws of the list of open records.
pub mod Entries
