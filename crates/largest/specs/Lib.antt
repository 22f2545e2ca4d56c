pub mod Largest
pub mod Statements
pub mod Examples
