-- The units of a paragraph's body: its grapheme clusters, each with the face that it shows: definitions.
pub mod Units
pub mod Simple
pub mod Most
pub mod SimpleRanges
pub mod SimpleFace
pub mod SimpleAt
pub mod UnitFacts
