-- What reading and writing leaves.
pub mod Streams
