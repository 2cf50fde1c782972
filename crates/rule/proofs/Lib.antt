pub mod Slots
pub mod Ruled
