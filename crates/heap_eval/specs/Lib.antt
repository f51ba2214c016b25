pub mod Environs
pub mod Joined
pub mod Stages
pub mod Row
