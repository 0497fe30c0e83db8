pub mod Live
pub mod SourceTables
