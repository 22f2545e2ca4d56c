pub mod Placing
pub mod Copying
pub mod Constructs
pub mod Unprintables
pub mod Sizes
pub mod Injective
pub mod Apart
