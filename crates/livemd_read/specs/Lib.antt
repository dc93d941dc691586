pub mod Causes
pub mod Reads
pub mod Resume
pub mod Views
