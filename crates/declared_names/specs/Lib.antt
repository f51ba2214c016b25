pub mod Faults
pub mod Seen
pub mod Sorts
pub mod Firsts
pub mod Lookups
