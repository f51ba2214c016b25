pub mod Numbers
pub mod Operations
pub mod Ripple
pub mod Comparison
pub mod Choice
pub mod Counting
