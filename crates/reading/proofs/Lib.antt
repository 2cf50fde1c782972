pub mod ByKind
pub mod Exactly
pub mod Within
pub mod Answers
pub mod Alike
pub mod After
pub mod Exits
pub mod Linked
