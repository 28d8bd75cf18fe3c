-- Laws of the round rule.
pub mod Digits
pub mod Seeds
pub mod Insertion
pub mod Tests
pub mod Rounds
pub mod Growth
pub mod Order
