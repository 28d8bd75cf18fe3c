-- What reading a book to plain form answers, and what it writes.
pub mod Reads
