-- The words that only contracts of private functions use.
pub mod Steps
