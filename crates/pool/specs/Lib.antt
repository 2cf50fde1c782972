pub mod Octets
pub mod Lookup
