pub mod Headers
pub mod Short
pub mod Parts
pub mod Announced
pub mod Linked
