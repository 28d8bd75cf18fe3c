-- Laws of what is printed of a space.
pub mod Fronts
