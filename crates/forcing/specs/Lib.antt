-- What forcing answers.
pub mod Forcing
