pub mod Apart
pub mod Earlier
pub mod Lists
pub mod Missing
pub mod Ready
pub mod Starting
pub mod Sweeping
pub mod Worked
