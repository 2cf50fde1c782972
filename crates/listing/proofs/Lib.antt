pub mod Answers
pub mod Short
pub mod Left
pub mod Room
pub mod Linked
