-- The paragraph level, the explicit levels and the isolating run sequences of a paragraph body (UAX #9, 3.3.1 to 3.3.3): definitions.
pub mod ParagraphLevel
pub mod Stack
pub mod Explicit
pub mod CharLevel
pub mod Sequences
pub mod TextLevels
pub mod OpenChains
pub mod StoredChains
pub mod LevelIndexes
pub mod Walk
pub mod Laws
pub mod StackCalls
