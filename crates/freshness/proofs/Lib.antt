pub mod Followed
pub mod Lists
pub mod Remarking
pub mod Validities
pub mod Worked
