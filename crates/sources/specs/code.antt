pub mod Answered
pub mod Raise
