pub mod Further
pub mod Sure
