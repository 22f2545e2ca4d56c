pub mod Unprintables
pub mod Room
pub mod RefusalSets
pub mod Faithful
pub mod Answers
