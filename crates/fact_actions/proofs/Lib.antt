pub mod AdapterEnds
pub mod Alike
pub mod AlikeMoves
pub mod AlikeRuns
pub mod AlignedMoves
pub mod Asking
pub mod Avoids
pub mod Barriers
pub mod Binds
pub mod CheckedMoves
pub mod Checks
pub mod Confines
pub mod Few
pub mod FlagBits
pub mod Follows
pub mod GivenSlots
mod HonestCases
pub mod Kept
pub mod Moved
pub mod Multiples
pub mod NamedPlain
pub mod Names
pub mod Once
pub mod Ordered
pub mod Orderly
mod OutlinedRows
pub mod Owned
pub mod OwnMoves
pub mod OwnParts
pub mod OwnValues
pub mod Passed
pub mod Rooms
mod Rows
pub mod Sources
pub mod States
pub mod Stays
pub mod ValidTypes
pub mod Whenever
