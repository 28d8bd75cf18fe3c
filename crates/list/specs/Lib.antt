-- What rounds and listings answer.
pub mod Lists
