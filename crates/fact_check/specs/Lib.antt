pub mod Accepted
pub mod Causes
pub mod Constants
pub mod Imports
pub mod NameNumbers
pub mod Operands
pub mod Sections
pub mod Soundness
