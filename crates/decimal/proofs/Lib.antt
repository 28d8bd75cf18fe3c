-- Laws of decimal digits, and of writing them.
pub mod Digits
pub mod Putting
pub mod Values
