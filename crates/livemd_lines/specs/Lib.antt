pub mod Kinds
pub mod Lines
pub mod Meanings
pub mod Views
pub mod Written
