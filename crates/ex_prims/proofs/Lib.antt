mod Charging
pub mod ListPairs
pub mod ListShared
pub mod Orders
pub mod Sorting
pub mod Firsts
pub mod IntegerPowers
pub mod IntegerTexts
pub mod IntegerSums
pub mod TextArguments
pub mod TextTests
pub mod TextJoining
pub mod TextPieces
pub mod TextCopies
pub mod TextSizes
pub mod TextGaps
