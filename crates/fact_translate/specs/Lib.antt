pub mod MovedSums
