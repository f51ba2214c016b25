pub mod Forms
pub mod Found
pub mod Says
pub mod Judging
pub mod Starts
pub mod Trying
pub mod Plainly
