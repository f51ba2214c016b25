pub mod Firsts
pub mod Replays
