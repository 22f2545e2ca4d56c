-- The words that only inner contracts and laws use.
pub mod Narrow
