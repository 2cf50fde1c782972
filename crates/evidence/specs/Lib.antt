pub mod Starred
pub mod Examples
pub mod ShutOut
