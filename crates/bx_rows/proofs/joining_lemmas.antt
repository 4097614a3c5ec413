-- Joined letters: which letters of a body join, by joining types and levels, and the forms in which they are shown: lemmas.
pub mod Pairs
pub mod LastChars
pub mod FormsAt
pub mod TextForms
pub mod JoinedNeighbours
pub mod LowestLevels
pub mod LawForms
pub mod Nearest
pub mod StandOn
pub mod Examples
