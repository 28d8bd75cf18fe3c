-- The laws that proofs above cite.
pub mod Answers
pub mod Tests
pub mod Refusals
pub mod Spaces
