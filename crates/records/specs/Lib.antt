-- Records as words.
pub mod Words
