pub mod Between
pub mod Chained
pub mod Passing
