pub mod EvalForms
pub mod ExecForms
pub mod Lists
pub mod FieldLaws
pub mod GivenFields
mod KindedWidths
mod KindedForms
pub mod Kinded
pub mod KindedStarts
pub mod Visiting
pub mod Closure
pub mod Reach
pub mod Reached
mod RowParts
mod Rows
mod Judgements
mod KindedRows
mod Cases
