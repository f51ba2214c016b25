pub mod Forms
pub mod Induction
pub mod Members
pub mod Cases
pub mod Bounds
pub mod Alike
pub mod Unrolling
pub mod Vars
pub mod Fitting
pub mod Kept
mod Rows
