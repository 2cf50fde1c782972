pub mod Fits
pub mod Linked
