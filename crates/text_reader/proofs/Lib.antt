-- The laws that the functions' proofs cite.
mod Turns
mod Openings
mod Passing
mod Copying
pub mod Whole
