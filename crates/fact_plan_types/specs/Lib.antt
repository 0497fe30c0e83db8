pub mod Adding
pub mod BrokenRules
pub mod Faults
pub mod PlanShapes
pub mod PlanTypes
pub mod Reached
pub mod Standing
pub mod TypeRules
