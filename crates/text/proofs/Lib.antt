-- The laws that proofs here and above cite.
pub mod Pieces
pub mod Numbers
pub mod Walks
pub mod Gathering
pub mod Good
pub mod Back
pub mod Written
