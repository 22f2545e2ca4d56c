pub mod Spots
pub mod Constructs
