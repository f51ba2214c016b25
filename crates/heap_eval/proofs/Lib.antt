pub mod Instances
pub mod Ranges
pub mod Visiting
pub mod Row
