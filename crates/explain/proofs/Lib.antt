-- Laws of explaining.
pub mod Passes
pub mod Explains
