pub mod Parts
pub mod Good
pub mod Taken
pub mod Answers
pub mod Linked
