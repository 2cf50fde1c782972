pub mod Turns
pub mod Soundness
pub mod Within
pub mod Clauses
pub mod Linked
