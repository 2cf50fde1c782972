pub mod Calls
pub mod After
pub mod Told
pub mod Ready
