pub mod Reaches
pub mod Clause
pub mod Descent
