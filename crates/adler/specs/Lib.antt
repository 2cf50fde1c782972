pub mod Adler
pub mod Part
