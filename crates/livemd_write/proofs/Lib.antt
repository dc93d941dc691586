mod Blocks
mod Cleaning
mod Keeping
mod Passaging
mod Pieces
mod Streaming
mod Telling
mod Tidying
