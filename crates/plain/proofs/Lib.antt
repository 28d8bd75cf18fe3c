-- The laws that proofs here and above cite.
pub mod Given
pub mod Back
