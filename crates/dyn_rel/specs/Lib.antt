pub mod Joining
pub mod Looking
pub mod Runs
pub mod Formulas
pub mod Starts
