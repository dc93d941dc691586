pub mod Trees
pub mod Ordering
pub mod Equality
pub mod Sums
pub mod Quotes
pub mod Printing
