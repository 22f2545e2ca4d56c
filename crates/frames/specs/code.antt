pub mod Related
pub mod Shape
