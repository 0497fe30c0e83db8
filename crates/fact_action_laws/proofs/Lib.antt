pub mod Adapted
pub mod AdapterRanges
pub mod AdapterReads
pub mod AdapterRequests
mod AllAsked
mod AllPaths
mod AllRanged
mod AllRuled
mod Answerable
mod Answered
pub mod Apart
mod Asking
pub mod Assembled
pub mod AsyncRequests
mod Beginning
pub mod Bounds
pub mod Bytes
pub mod Called
pub mod Cases
mod CheckedRows
pub mod ChecksPass
pub mod Cleared
pub mod Coming
pub mod Converse
mod Copies
pub mod Counted
pub mod Crossed
mod Cutting
pub mod Decoded
pub mod Deliveries
pub mod Distinct
pub mod Elements
pub mod Encoded
pub mod Ending
pub mod Enums
mod Equipped
pub mod FaithfulRuns
pub mod Fields
mod Fine
pub mod Finished
mod FirstRequest
pub mod FixedLaws
pub mod Flagged
pub mod Flats
mod ForTypes
pub mod Framed
mod GoodAnswers
pub mod Grounding
mod Halting
pub mod Handing
mod HonestPasses
mod HonestResults
pub mod HonestRows
mod HonestTexts
mod HonestTransfers
pub mod Honestly
mod IntoCompact
mod IntoUtf8
mod Invariant
pub mod Joins
pub mod Judges
pub mod Landed
pub mod Landing
mod Limited
pub mod ListLaws
pub mod Lists
pub mod MapLaws
mod Means
pub mod Membered
pub mod Missing
pub mod MoveLaws
pub mod Never
pub mod NewRegions
pub mod NoCase
pub mod NoLeaf
pub mod NoList
pub mod Numbers
pub mod Numeric
pub mod Once
pub mod Pairs
mod PartAsks
pub mod PartRooms
pub mod PartTexts
pub mod Parting
mod Passes
mod PastLimits
pub mod Placing
pub mod Plain
pub mod PointerPairs
pub mod Prefixes
pub mod Products
mod RangeLaw
mod Ranging
mod ReadCalls
mod ReadRuns
mod ReadWalks
mod Reading
pub mod Records
pub mod Refusals
pub mod Refused
pub mod Regional
mod RequestCases
pub mod RequestRooms
pub mod Returns
pub mod Rows
mod Served
pub mod Shaped
pub mod Spans
mod SparedMoves
mod SparedTexts
mod Spares
pub mod Spelled
pub mod Splits
mod Stages
pub mod Standing
pub mod Starts
mod States
pub mod Stopping
pub mod Sums
pub mod Targets
pub mod Telling
mod TextCuts
pub mod TextLaw
mod TextRooms
mod TextTransfers
pub mod Theorem
pub mod Thrown
mod Trails
pub mod Transcoded
mod TransferAsks
pub mod TransferEnds
pub mod TransferHonesty
pub mod Transfers
mod Trapped
mod Trapping
pub mod TupleRooms
mod TupleTexts
pub mod Tupled
pub mod Tuples
pub mod TypedArgs
mod TypedTexts
mod Unread
pub mod Variants
mod WalkAsks
mod WalkReallocs
mod Walked
mod Walking
pub mod Weighed
pub mod Weights
pub mod WorkedAdapters
mod WrongBodies
mod WrongRequests
