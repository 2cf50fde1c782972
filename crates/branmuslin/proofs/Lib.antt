pub mod Cases
pub mod Linked
