pub mod Judging
pub mod Pairs
