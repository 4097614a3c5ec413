-- The paragraph level, the explicit levels and the isolating run sequences of a paragraph body (UAX #9, 3.3.1 to 3.3.3): lemmas.
mod Examples
mod LawExamples
pub mod Scan
pub mod Rising
pub mod Steps
pub mod States
pub mod LevelRuns
pub mod Texts
pub mod Backward
pub mod Nearest
pub mod Bounds
pub mod RunsAt
pub mod RunWalk
pub mod Newest
pub mod StoredChains
pub mod FirstLow
pub mod RunEnd
pub mod Inside
pub mod OverflowIsolate
pub mod JoinedByLevel
pub mod Ending
pub mod Spans
pub mod JoinedRuns
pub mod PendingChains
pub mod SequenceOrder
pub mod Ordered
pub mod Counted
pub mod OneSequence
