-- The seed search's path.
pub mod Paths
