pub mod Listed
pub mod InBlocks
pub mod Guards
pub mod Apart
pub mod Linked
