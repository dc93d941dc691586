pub mod Changes
pub mod Example
pub mod Places
pub mod Rows
pub mod Work
