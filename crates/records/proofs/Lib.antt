pub mod Numbers
pub mod Pieces
pub mod Sizes
pub mod Nesting
pub mod Runs
