pub mod Counting
pub mod Links
pub mod FirstPlaces
pub mod Meeting
pub mod InOrder
pub mod Places
pub mod Ranges
pub mod Rising
mod Rows
pub mod TableMet
pub mod TupleOrder
pub mod NumbersLemmas
pub mod OneVisit
pub mod Visited
