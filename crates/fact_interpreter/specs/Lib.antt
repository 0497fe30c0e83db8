pub mod Asked
pub mod Cut
pub mod Running
