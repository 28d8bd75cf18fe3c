-- Turns of clauses.
pub mod Turns
