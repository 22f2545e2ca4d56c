pub mod Ordered
pub mod Steps
pub mod Bounds
pub mod Beginnings
pub mod Allowed
pub mod StartFaults
pub mod Examples
