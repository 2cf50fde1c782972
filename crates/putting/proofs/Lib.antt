mod Part
pub mod Linked
