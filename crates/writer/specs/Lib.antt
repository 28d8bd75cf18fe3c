-- What writing a plain form to a book answers, and what it writes.
pub mod Writes
pub mod Steps
