-- The boundary to C: how an answer crosses it.
pub mod Crossing
