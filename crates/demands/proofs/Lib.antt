-- Demands 2 and 3, proved.
pub mod Demands
