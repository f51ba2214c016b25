pub mod Row
pub mod Six
