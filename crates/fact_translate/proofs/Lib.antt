pub mod ElementRuns
pub mod FixedMembers
pub mod MapMembers
pub mod SumCases
pub mod SumEmits
pub mod SumJoin
pub mod SumRoom
