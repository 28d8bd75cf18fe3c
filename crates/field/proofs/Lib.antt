-- The laws that proofs here and above cite.
pub mod Parts
pub mod Words
pub mod Fields
