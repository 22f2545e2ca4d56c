pub mod Laying
pub mod Parted
pub mod Binds
pub mod Structs
pub mod Outermost
