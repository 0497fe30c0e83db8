pub mod Forms
pub mod Generated
pub mod Laws
pub mod Linked
