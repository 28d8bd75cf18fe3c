-- The laws that the functions' proofs cite.
mod Numbers
mod Scans
mod Passing
pub mod Copying
pub mod Books
pub mod Whole
