pub mod Accepting
mod Adding
mod BookLines
mod Books
mod Characters
mod Drafting
mod LineKinds
pub mod OneMore
pub mod ReadBack
mod Steps
mod Tidiness
pub mod TidyBooks
mod TidyTexts
pub mod Trimming
pub mod Twice
pub mod Walking
mod Worked
mod WorkedItems
