pub mod Literals
pub mod Propagation
pub mod Threads
pub mod Trail
pub mod Visit
pub mod Watching
