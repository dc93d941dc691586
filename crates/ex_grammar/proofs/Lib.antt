pub mod CodeTokens
mod WorkedTokens
mod WorkedGrammar
