pub mod Places
pub mod OneStatus
