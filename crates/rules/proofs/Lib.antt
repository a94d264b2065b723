-- Laws and proofs over the rules.
-- What other crates cite: Laws and Tests; of a call Steps; of kept plants KeptTest, KeptParts, KeptSlots, Buffer and Words; Away (a value without the store),
-- Frames (what a call may write), Demand3 and CacheOrder.
-- the worked runs, a file for each of specs/
mod WorkedEdges
mod WorkedCalls
mod WorkedOrders
mod WorkedBounds
mod WorkedHistories
mod WorkedCache
mod WorkedRows
mod WorkedPulls
mod WorkedWalks
pub mod Worked
-- laws
pub mod Laws
pub mod Tests
pub mod Accepts
pub mod Steps
pub mod Refused
pub mod Slots
pub mod KeptParts
pub mod Buffer
pub mod InOrder
pub mod Sweeping
pub mod Words
-- what is claimed of a call on any plant, or needs few of the plant's rules
pub mod Answered
pub mod Frames
pub mod Numbers
pub mod Sessionless
-- parts of the invariant
pub mod Invariant
pub mod Workers
pub mod Leases
pub mod Sessions
-- the rules that a plant keeps
pub mod KeptSlots
pub mod KeptSessions
pub mod KeptTables
pub mod KeptSetup
pub mod KeptTerminals
pub mod KeptWorkers
pub mod Kept
pub mod KeptTest
pub mod Away
-- demand 3
pub mod InvariantTerminals
pub mod InvariantWorkers
pub mod InvariantSteps
pub mod CommitOrder
pub mod Prepare
pub mod Drain
pub mod Demand3
pub mod Demand2
pub mod Answers
-- the key cached longest ago gives way
pub mod CacheOrder
-- a sweep takes what it can, oldest rows first
pub mod AppliedOnce
pub mod RowOrder
-- a recalled lot leaves the tally whole
pub mod Pulls
-- look from the newest booking back
pub mod Walks
pub mod Theorem
