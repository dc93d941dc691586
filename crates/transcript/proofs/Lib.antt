pub mod Agreeing
pub mod Revisions
pub mod Steps
