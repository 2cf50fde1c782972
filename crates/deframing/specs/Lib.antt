pub mod File
pub mod Start
pub mod Run
