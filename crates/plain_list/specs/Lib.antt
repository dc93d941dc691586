pub mod Lends
pub mod Numbered
