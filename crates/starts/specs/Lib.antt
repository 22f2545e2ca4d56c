pub mod Beginning
pub mod Allowed
pub mod Examples
pub mod code
