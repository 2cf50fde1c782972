pub mod Order
pub mod PastTheEnd
pub mod Puts
pub mod Writers
pub mod Again
pub mod Linked
