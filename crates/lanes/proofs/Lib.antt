pub mod Earlier
mod Examples
pub mod Lists
pub mod Marks
pub mod Ready
pub mod Starting
pub mod Sweeping
