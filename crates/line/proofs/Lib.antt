-- The laws that proofs here and above cite.
pub mod Tokens
pub mod Spelling
pub mod Words
pub mod Starts
pub mod Steps
