pub mod Entries
pub mod Fault
pub mod Inputs
pub mod Parts
pub mod Plan
pub mod Reading
pub mod Words
