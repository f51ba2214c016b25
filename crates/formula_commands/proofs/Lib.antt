pub mod Formulas
pub mod Fetching
pub mod Searching
pub mod Judging
pub mod Accepted
