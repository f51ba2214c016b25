pub mod Words
pub mod Numbered
pub mod Occurring
pub mod Passing
