-- Laws of what one record decides.
pub mod Paths
pub mod Pressing
