pub mod Packets
pub mod Grouping
pub mod Plans
pub mod Steps
pub mod Faults
