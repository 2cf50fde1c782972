pub mod Space
pub mod Encapsulation
pub mod Told
