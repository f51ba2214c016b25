pub mod Counts
pub mod MemFilesTold
pub mod MemSinkTold
pub mod Planned
pub mod Shelf
pub mod Slots
pub mod Taken
pub mod Transfers
