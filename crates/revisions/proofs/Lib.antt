pub mod Answering
pub mod Chains
pub mod Honest
pub mod Keeping
pub mod Lowest
pub mod Raising
mod Worked
