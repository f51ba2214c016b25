pub mod Written
pub mod Progress
