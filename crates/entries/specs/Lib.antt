pub mod Entry
pub mod Entries
pub mod Exported
pub mod Contract
pub mod Functions
pub mod Views
pub mod Demand1
pub mod Built
