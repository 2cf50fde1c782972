mod One
mod Front
pub mod Steps
mod Chunks
pub mod Whole
pub mod Linked
