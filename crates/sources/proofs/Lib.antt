pub mod Standing
pub mod Raised
