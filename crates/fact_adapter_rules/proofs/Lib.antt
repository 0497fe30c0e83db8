pub mod BindingLaws
pub mod BoundLaws
pub mod Decisions
pub mod FaultLaws
pub mod FirstLaws
pub mod FrontLaws
mod ItemLaws
pub mod LinkLaws
pub mod MismatchLaws
pub mod NameLaws
mod PairLaws
pub mod PlanLaws
pub mod SignatureLaws
pub mod StageLaws
pub mod TupleLaws
pub mod UseLaws
