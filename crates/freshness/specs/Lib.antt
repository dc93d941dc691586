pub mod Calls
pub mod Following
pub mod Laws
pub mod Marked
pub mod Places
pub mod Validity
