pub mod Runs
pub mod Front
pub mod Parts
pub mod Machine
pub mod Settled
pub mod Open
pub mod Lexed
