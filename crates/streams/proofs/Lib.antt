-- Laws of what reading and writing leaves.
pub mod Leaving
