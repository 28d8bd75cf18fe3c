-- Group CNF text: its lines, their forms, the book that a text is taken as, and the text that a book is written as.
pub mod Lines
pub mod Forms
pub mod Taking
pub mod Writing
