pub mod Held
pub mod History
pub mod Jobs
pub mod Logs
pub mod Session
pub mod Stands
