pub mod Same
pub mod Joints
pub mod LookedSets
pub mod Walking
pub mod Lists
pub mod Whole
pub mod Rest
pub mod FirstStates
