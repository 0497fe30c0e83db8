pub mod LocalRuns
pub mod RangedSteps
pub mod SameNumbers
pub mod WrittenSteps
