pub mod Asked
pub mod Cuts
pub mod Declared
pub mod Entries
pub mod Steps
pub mod Typing
