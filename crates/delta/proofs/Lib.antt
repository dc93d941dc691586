pub mod CanonicalPacks
pub mod CanonicalSteps
pub mod Compositions
mod Examples
pub mod FrontLemmas
pub mod Halves
pub mod JoinTurns
pub mod MoveTurns
pub mod PackerLemmas
pub mod PackTurns
pub mod Packs
pub mod Rooms
pub mod Run
pub mod Transforms
pub mod Walk
