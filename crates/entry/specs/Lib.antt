-- What the entry promises of one call and of a list, demands 1 and 2 of its calls, demand 3 of every list of calls, that equal calls are answered
-- alike, the order of the cached keys and of the rows, what pulls leave, and what the walk decides.
pub mod Ran
pub mod Refused
pub mod RanAll
pub mod Demand3
pub mod Demands
pub mod Listed
pub mod Equal
pub mod CacheOrder
pub mod RowOrder
pub mod Pulls
pub mod Walks
