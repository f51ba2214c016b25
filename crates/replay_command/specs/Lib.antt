pub mod ReplayCommand
pub mod Replaying
