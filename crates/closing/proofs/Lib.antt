-- Laws of passes over the records.
pub mod Passes
