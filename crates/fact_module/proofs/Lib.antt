pub mod AdapterImports
pub mod FuseLaws
pub mod PlainAdapters
pub mod TupleLaws
pub mod WorkedPlans
