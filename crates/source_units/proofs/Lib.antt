pub mod Named
pub mod OneVerdict
