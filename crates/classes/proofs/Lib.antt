pub mod All
pub mod Bools
pub mod Cut
pub mod Runs
pub mod Table
pub mod Search
