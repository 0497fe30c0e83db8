pub mod RuleLaws
pub mod TypeFaults
pub mod Walk
