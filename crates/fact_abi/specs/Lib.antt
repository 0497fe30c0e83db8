pub mod CrossingWalks
pub mod Decoding
pub mod Finding
pub mod Leading
pub mod Loading
pub mod Nodes
pub mod Rooms
