-- What turning a book into text answers, and what it writes.
pub mod ToText
