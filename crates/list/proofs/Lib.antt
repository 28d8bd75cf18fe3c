-- Laws of rounds and of listings.
pub mod Opening
pub mod Adding
pub mod Lists
pub mod Continuing
pub mod Demands
