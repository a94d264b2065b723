-- What a call is answered and what it leaves, calls run one after the other, the three demands of the code, equal calls, the order of the
-- cached keys and of the rows, and what pulls leave.
mod Laws
pub mod Filled
mod Asked
mod Done
pub mod RunAll
pub mod Demand3
pub mod Demands
pub mod Listed
pub mod Equal
pub mod CacheOrder
pub mod RowOrder
pub mod Pulls
pub mod Walks
