pub mod Kind
pub mod Given
