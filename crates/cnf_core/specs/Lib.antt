pub mod Arena
pub mod Clauses
pub mod Literal
pub mod Trues
pub mod Truth
