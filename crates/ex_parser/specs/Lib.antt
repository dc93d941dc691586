pub mod Stands
pub mod Parsed
pub mod Follow
pub mod Machine
pub mod Levels
pub mod Shown
