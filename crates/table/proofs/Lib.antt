-- The laws that the proofs cite.
pub mod Stores
pub mod Places
pub mod Laying
