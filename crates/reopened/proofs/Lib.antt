pub mod Kids
pub mod Made
pub mod Read
pub mod Theorem
