pub mod Appended
pub mod Bytes
pub mod Pieces
pub mod Units
