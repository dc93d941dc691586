pub mod Ends
pub mod Laws
pub mod Misfits
pub mod Pairs
