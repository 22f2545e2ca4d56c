pub mod Bytes
pub mod Class
pub mod Run
pub mod Table
pub mod code
