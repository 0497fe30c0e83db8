pub mod Compiling
pub mod Errors
pub mod Giving
