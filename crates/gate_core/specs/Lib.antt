pub mod Circuit
pub mod Chains
