-- What the words of document 01 mean.
pub mod Book
pub mod Choice
pub mod Consistent
pub mod Forced
pub mod Marks
pub mod Explanation
