pub mod Members
pub mod Reported
pub mod Resolved
