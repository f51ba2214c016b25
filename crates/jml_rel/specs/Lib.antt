pub mod Places
pub mod Points
pub mod Links
pub mod Parts
pub mod Clauses
pub mod Asked
