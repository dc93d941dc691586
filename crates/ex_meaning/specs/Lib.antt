pub mod Bound
pub mod Going
pub mod Matching
pub mod Evaluating
pub mod Means
pub mod Laws
