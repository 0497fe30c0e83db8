pub mod Names
pub mod Runs
pub mod AsyncRuns
pub mod Functions
pub mod Laws
pub mod Worked
pub mod WorkedTexts
