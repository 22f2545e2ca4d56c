pub mod Source
pub mod Raise
pub mod code
