pub mod Changes
pub mod Deeds
pub mod Fresh
pub mod Growing
pub mod Lists
pub mod Live
pub mod Marks
pub mod Members
pub mod Orderly
pub mod Ready
pub mod Settled
pub mod Shown
pub mod Snapshots
pub mod Sources
pub mod Steps
pub mod Structures
pub mod Sweeps
mod Worked
