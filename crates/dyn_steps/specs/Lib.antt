pub mod Points
pub mod Agreeing
pub mod Looked
pub mod Paths
pub mod Meanings
pub mod Joining
