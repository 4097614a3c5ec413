-- Bracket pairs and the types they resolve to (UAX #9, 3.1.3 and 3.3.5): lemmas.
mod Examples
mod LawExamples
pub mod Stack
pub mod Close
pub mod Missed
pub mod Closers
pub mod Insert
pub mod Nested
pub mod Neighbours
pub mod Nsms
pub mod Context
pub mod ClearRanges
