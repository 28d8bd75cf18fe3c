-- What one record decides.
pub mod Paths
