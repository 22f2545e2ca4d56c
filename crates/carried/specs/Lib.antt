pub mod Carry
pub mod Promised
pub mod Examples
pub mod code
