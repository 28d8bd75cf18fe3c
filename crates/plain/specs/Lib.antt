-- The plain form of a rule book: how a book is given in it, and how it is taken as a book.
pub mod Plain
pub mod Taking
