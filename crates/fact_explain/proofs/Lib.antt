pub mod Ended
pub mod Live
pub mod LiveShapes
pub mod Paged
pub mod Parted
pub mod Passing
pub mod Said
