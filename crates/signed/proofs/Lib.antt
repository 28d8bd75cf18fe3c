-- The laws that proofs here and above cite.
pub mod Split
