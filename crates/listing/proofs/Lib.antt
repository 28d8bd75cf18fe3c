-- Laws of what the listing program prints.
pub mod Prints
