pub mod Done
