-- What the working space holds.
pub mod Space
