pub mod Code
pub mod PassedOn
pub mod Steps
