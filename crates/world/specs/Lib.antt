pub mod Applied
pub mod Claims
pub mod Messages
pub mod Plays
pub mod Sound
pub mod Waiting
pub mod World
