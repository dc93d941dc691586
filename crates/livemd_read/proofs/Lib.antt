mod Building
pub mod Causes
mod Counting
mod Fronts
mod Growing
mod Numbering
mod Settling
mod Steps
