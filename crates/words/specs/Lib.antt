pub mod Kinds
pub mod Tables
pub mod Search
pub mod Quote
pub mod code
