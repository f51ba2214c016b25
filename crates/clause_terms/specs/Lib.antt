pub mod Terms
pub mod Fields
pub mod Chains
pub mod Gathering
pub mod Reaching
