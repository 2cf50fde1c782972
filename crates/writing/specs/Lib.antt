pub mod Fields
pub mod Space
pub mod Encapsulation
pub mod Told
pub mod Carries
