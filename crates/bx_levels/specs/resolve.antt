-- The levels of the characters of a paragraph body (UAX #9, 3.3): definitions.
pub mod Body
pub mod Weak
pub mod Turns
pub mod Neutral
pub mod Levels
pub mod LevelRuns
pub mod LevelBytes
pub mod Uniform
pub mod ClassLevels
pub mod Edited
pub mod Laws
pub mod Kept
