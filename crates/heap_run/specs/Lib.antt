pub mod Onward
pub mod Cost
pub mod Tasks
pub mod Runs
pub mod Machines
