pub mod Finding
pub mod Flows
pub mod Sources
pub mod Setting
pub mod Standing
pub mod Conditions
pub mod Answers
pub mod Counting
pub mod Sums
pub mod Spots
pub mod Orders
pub mod Cuts
pub mod Making
pub mod CellMoves
pub mod Parents
pub mod Rooted
pub mod Totals
pub mod Alike
pub mod Keeping
pub mod Living
pub mod Resourcing
mod Worked
mod WorkedChanges
