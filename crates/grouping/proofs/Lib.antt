pub mod Grouped
pub mod Faulty
pub mod Accepted
pub mod Planned
pub mod Linked
