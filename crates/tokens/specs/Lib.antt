pub mod Refusals
pub mod Answers
pub mod Token
pub mod Calls
pub mod Walk
pub mod Raise
pub mod RefusalSets
pub mod code
