pub mod Calls
pub mod Start
pub mod Begun
