pub mod EntryLaws
pub mod FunctionLaws
pub mod KindLaws
pub mod ListLaws
pub mod RuleLaws
pub mod WalkLaws
pub mod WeightLaws
