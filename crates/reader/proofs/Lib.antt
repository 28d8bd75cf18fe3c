-- The laws that the functions' proofs cite.
mod Putting
mod Walks
pub mod Reading
