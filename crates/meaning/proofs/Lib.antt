-- Laws of the meanings.
pub mod Choices
pub mod Marks
pub mod Forced
pub mod Deciding
pub mod Explanations
