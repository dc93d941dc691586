pub mod Feeds
mod Marks
pub mod Stretches
pub mod Walks
mod Worked
