-- Laws of the boundary.
pub mod Crossing
pub mod Sole
