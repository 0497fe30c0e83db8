pub mod Faults
pub mod InputError
pub mod Memory
pub mod Streams
pub mod Transfers
