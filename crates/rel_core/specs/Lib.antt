pub mod Reading
pub mod Meaning
pub mod Uses
pub mod Shown
pub mod States
pub mod Laws
pub mod Views
