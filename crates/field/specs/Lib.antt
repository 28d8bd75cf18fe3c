-- Numbers of two bytes, and tagged fields made of them.
pub mod Words
pub mod Field
pub mod Left
