-- Signed numbers as a sign and a number without one.
pub mod Signed
