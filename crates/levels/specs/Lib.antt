-- Levels of variables.
pub mod Levels
