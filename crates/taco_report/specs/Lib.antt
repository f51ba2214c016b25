pub mod Statuses
pub mod Texts
pub mod Reports
pub mod RefusalLines
pub mod FormulaTexts
pub mod States
pub mod Replays
pub mod Pairs
