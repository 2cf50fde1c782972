pub mod Looked
pub mod Going
pub mod Rises
pub mod Linked
