pub mod Numerals
pub mod Lists
pub mod Simple
pub mod Taking
mod Rows
