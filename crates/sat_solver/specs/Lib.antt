pub mod Answers
pub mod Loading
pub mod Queued
pub mod Search
pub mod Steps
