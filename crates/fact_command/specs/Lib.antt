pub mod Command
pub mod ImportLines
pub mod Refusal
pub mod Status
