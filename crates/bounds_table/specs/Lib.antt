pub mod State
pub mod Core
pub mod Marks
pub mod Rule
pub mod Plays
