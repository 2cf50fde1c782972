mod Steps
pub mod Whole
pub mod Linked
