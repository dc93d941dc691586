pub mod Evaluations
pub mod Futures
