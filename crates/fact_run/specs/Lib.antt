pub mod Check
pub mod Replies
pub mod Run
