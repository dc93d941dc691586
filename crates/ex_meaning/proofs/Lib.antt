pub mod Follows
pub mod Tries
pub mod Evaluations
pub mod Worked
