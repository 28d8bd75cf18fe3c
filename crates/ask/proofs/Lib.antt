-- Laws of asking about a choice.
pub mod Answering
pub mod Asks
