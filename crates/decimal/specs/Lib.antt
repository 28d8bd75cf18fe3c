-- Numbers in decimal digits.
pub mod Digits
