pub mod Demand
pub mod Arguments
pub mod Examples
pub mod Theorems
