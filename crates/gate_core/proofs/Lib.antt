pub mod Values
pub mod Search
pub mod Links
pub mod Places
pub mod Growth
pub mod Conjunctions
