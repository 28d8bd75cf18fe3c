-- Document 01's cases, computed.
pub mod BookX
pub mod Refusals
pub mod Choices
pub mod Starred
pub mod Texts
