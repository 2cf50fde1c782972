pub mod Tallied
pub mod Fine
pub mod Parts
pub mod Linked
