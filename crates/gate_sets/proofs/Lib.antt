pub mod Standing
pub mod Places
pub mod Rowwise
pub mod Several
pub mod Paths
