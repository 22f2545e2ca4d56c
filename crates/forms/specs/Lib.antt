pub mod Line
pub mod Unprintable
pub mod Forms
pub mod Sizes
pub mod code
