pub mod Names
pub mod Evaluated
pub mod Coded
pub mod Called
pub mod Judging
pub mod Fitting
pub mod Ordered
pub mod Canonically
