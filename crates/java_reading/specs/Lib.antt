pub mod Readers
pub mod Tokens
pub mod Forms
pub mod PartForms
pub mod StatementReading
pub mod Expressions
pub mod MemberReading
pub mod Gives
