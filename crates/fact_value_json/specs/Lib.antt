pub mod JsonLaws
pub mod Printing
pub mod Reading
pub mod Walks
