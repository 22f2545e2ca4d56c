pub mod Entry
pub mod Outline
pub mod Calls
pub mod Theorems
pub mod Examples
pub mod code
