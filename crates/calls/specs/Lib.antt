pub mod Calls
pub mod RefusalSets
pub mod code
