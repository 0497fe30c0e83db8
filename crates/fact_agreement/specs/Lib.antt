pub mod Left
pub mod Lists
pub mod Named
pub mod Told
