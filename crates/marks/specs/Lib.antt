pub mod Blocks
pub mod Matching
pub mod Seen
