pub mod Keeping
pub mod Ends
pub mod Costs
pub mod CodeSteps
pub mod StmtSteps
pub mod CallSteps
pub mod WaitSteps
