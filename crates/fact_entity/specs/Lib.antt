pub mod Entries
pub mod Keys
pub mod Lending
pub mod Places
