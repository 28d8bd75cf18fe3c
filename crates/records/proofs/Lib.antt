-- Laws of records as words.
pub mod Words
