pub mod Checked
pub mod Fused
pub mod Fusing
pub mod WorkedPlans
