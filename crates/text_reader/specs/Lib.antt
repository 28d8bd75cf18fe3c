-- What turning a text into a book answers, and what it writes.
pub mod FromText
pub mod Steps
