-- The laws that the functions' proofs cite.
mod Putting
pub mod Texts
