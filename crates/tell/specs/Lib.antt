-- What programs print of an answer.
pub mod Told
