-- What the functions on marks ask of a clause, and how they name what they find.
pub mod Fits
