pub mod SymbolLemmas
pub mod Chains
pub mod OneCut
pub mod Longest
pub mod Pieces
pub mod EndLemmas
pub mod Written
pub mod Notes
