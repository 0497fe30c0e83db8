pub mod Agreeing
mod CoreCaseSteps
mod CoreCases
pub mod CoreKinds
pub mod CoreMembers
pub mod CoreNodes
pub mod CoreNumbers
mod CorePushes
pub mod CoreReads
pub mod CoreWrites
mod Decoded
mod FlagBytes
mod FlagWords
mod FlatLaws
pub mod OwnRooms
mod RoomKinds
mod RoomLaws
pub mod SmallAlignments
pub mod SpellingLaws
mod StoreCaseSteps
pub mod StoreCases
mod StoreEntries
mod StoreItems
pub mod StoreKinds
pub mod StoreLeaves
pub mod StoreNodes
pub mod StoreSteps
pub mod StoreWalks
pub mod Stored
mod StoredCases
pub mod StoredPlain
pub mod StoredTexts
pub mod TupleBehind
mod TupleExtents
pub mod TupleLifts
pub mod TupleLowers
mod TupleSizes
pub mod TuplesDone
mod WideLaws
