-- The laws that proofs above cite.
pub mod Places
pub mod Kept
pub mod Capped
pub mod Scans
pub mod Steps
