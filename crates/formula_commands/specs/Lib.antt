pub mod Texts
pub mod TextEnds
pub mod ProofCommand
pub mod SatCommand
pub mod Searches
pub mod PrintedLogs
