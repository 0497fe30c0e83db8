mod BitRows
pub mod Bits
mod Branches
mod Causes
mod Control
mod Exports
pub mod ImportRows
mod Invariant
mod Known
mod LastOperands
mod Layers
mod LocalRuns
mod Loops
mod NeverStuck
mod Numbers
mod PlainTyping
mod Rows
mod Sections
mod SeenTyped
mod States
mod Steps
pub mod Transcoders
pub mod TypedStates
mod Types
