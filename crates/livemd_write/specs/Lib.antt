pub mod Book
pub mod Cells
pub mod Pages
pub mod Passages
pub mod Texts
pub mod Told
