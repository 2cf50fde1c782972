pub mod Ones
pub mod Settled
pub mod Carried
pub mod Taken
pub mod Opened
pub mod Given
pub mod Closed
pub mod Linked
