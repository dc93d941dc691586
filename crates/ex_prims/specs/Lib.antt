pub mod Names
pub mod Answers
pub mod Integers
pub mod Lists
pub mod Texts
pub mod Rows
pub mod Calls
pub mod Bodies
