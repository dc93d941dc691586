pub mod Blanks
pub mod Cuts
pub mod Following
pub mod Fronts
pub mod Loop
pub mod Numbers
pub mod Operations
pub mod Posting
pub mod Reading
pub mod Single
pub mod Spelling
mod Rows
mod Worked
