pub mod Puts
pub mod Arena
mod Worked
pub mod WorkedTokens
pub mod WorkedGrammar
pub mod Once
