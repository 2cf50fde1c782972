mod Adding
pub mod Below
pub mod Linked
