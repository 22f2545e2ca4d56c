pub mod Kinds
pub mod Tree
pub mod Rust
pub mod Stored
pub mod Raise
pub mod Spans
pub mod code
