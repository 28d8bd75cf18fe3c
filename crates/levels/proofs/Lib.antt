-- Laws of the functions on levels.
pub mod Thresholds
pub mod Totals
pub mod Turns
pub mod Walks
pub mod Carrying
pub mod Granting
pub mod Confirming
