-- Laws of the functions on marks.
pub mod Tests
pub mod Walks
