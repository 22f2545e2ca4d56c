pub mod Listing
pub mod Steps
pub mod Asked
pub mod Docs
pub mod Kept
pub mod Counting
pub mod Sizes
pub mod Resumed
pub mod Division
pub mod Entries
pub mod Pieces
pub mod Ways
pub mod Whole
mod Blanks
pub mod Examples
