pub mod Apart
pub mod Calls
pub mod Facts
pub mod Laws
pub mod Starts
pub mod Wanted
