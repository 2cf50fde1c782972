pub mod Sent
pub mod Received
pub mod Recording
pub mod Examples
