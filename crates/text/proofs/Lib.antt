pub mod Decimal
pub mod LastFirst
pub mod Cut
pub mod Short
pub mod Underway
pub mod Linked
