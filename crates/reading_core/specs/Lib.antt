pub mod Read
pub mod Deeper
pub mod Loops
pub mod Machine
pub mod Endings
pub mod Follow
pub mod Exact
pub mod Gives
