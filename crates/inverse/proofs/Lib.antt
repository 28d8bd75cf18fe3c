-- Reading and writing undo each other; text to book to text to book ends with the same book.
pub mod Calls
pub mod Texts
