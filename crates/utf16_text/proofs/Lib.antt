pub mod Bytes
pub mod Counts
pub mod Decoding
pub mod Places
pub mod Scalars
