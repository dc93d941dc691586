pub mod Front
pub mod Lexemes
pub mod Settled
pub mod Machine
pub mod Levels
pub mod Shown
pub mod Reading
