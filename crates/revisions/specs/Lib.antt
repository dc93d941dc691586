pub mod Answer
pub mod Floors
pub mod Kept
pub mod Log
pub mod Moved
pub mod Source
