-- The laws that the proofs cite.
pub mod Marking
pub mod Ends
