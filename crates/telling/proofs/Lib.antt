pub mod Short
pub mod Ready
pub mod Linked
