pub mod Deltas
pub mod Left
pub mod Printed
pub mod States
pub mod Texts
