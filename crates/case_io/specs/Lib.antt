-- What the cases put into lent space, and the checksum of it.
pub mod Fill
