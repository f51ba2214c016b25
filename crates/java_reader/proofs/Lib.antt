pub mod Answered
pub mod CodeLemmas
pub mod ImportTails
pub mod Loops
pub mod MemberLoops
pub mod Passing
pub mod StatementLemmas
pub mod UnitLemmas
