-- What the run of the listing program prints.
pub mod Run
