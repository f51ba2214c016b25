pub mod StatePlaces
pub mod FormulaPlaces
pub mod LogPlaces
pub mod Found
pub mod Texts
pub mod Causes
pub mod Answering
pub mod Running
