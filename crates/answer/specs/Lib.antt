-- What every call has in common: it answers, or it refuses by number and place.
pub mod Answer
pub mod Refusals
pub mod Space
