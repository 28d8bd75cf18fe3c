-- The laws that proofs here and above cite.
mod Tests
mod Fields
mod Counting
pub mod Written
pub mod Inverse
pub mod Left
pub mod Walk
pub mod Turns
pub mod Walks
pub mod Sizes
pub mod Checks
pub mod Fitting
pub mod Chains
