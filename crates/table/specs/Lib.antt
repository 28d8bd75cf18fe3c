-- The table of a book's clauses.
pub mod Table
