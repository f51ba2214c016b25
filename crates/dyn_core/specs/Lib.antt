pub mod States
pub mod Actions
pub mod Runs
pub mod Kinds
pub mod Unrolled
pub mod Laws
