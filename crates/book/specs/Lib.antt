-- What a rule book is as bytes, how bytes are read, and what the calls answer.
pub mod Bytes
pub mod Reading
pub mod Check
pub mod Walk
pub mod Clauses
pub mod Front
