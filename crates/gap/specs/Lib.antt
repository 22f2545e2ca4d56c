pub mod Marks
pub mod Comments
pub mod Gap
pub mod PartsEnd
pub mod LineFeed
pub mod Raise
pub mod code
