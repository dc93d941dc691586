pub mod Entries
pub mod Places
pub mod Steps
pub mod Seats
pub mod Opening
pub mod Closing
