-- What a line after the `p` line adds.
pub mod Steps
