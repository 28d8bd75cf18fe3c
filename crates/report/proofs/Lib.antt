-- Laws of the text of a listing.
pub mod Cases
pub mod Digits
pub mod Lines
