-- Where the lines of a text and the tokens of a line lie, the numbers that tokens spell, and what a line begins as.
pub mod Tokens
pub mod Starts
