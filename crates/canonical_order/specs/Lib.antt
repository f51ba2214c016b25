pub mod Canonical
pub mod Laws
pub mod Links
pub mod Meeting
pub mod Met
pub mod Numbers
pub mod Tuples
pub mod Visiting
