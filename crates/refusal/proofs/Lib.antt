pub mod Named
pub mod Numbers
pub mod Linked
