-- What passes over the records decide.
pub mod Passes
