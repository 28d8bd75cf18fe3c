-- Demands 2 and 3 of document 00.
pub mod Demands
