pub mod CallEnds
pub mod ChainEnds
pub mod CheckEnds
pub mod Configured
pub mod Digits
pub mod Ends
