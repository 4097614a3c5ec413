-- The levels of the characters of a paragraph body (UAX #9, 3.3): lemmas.
mod Examples
mod LawExamples
pub mod Run
pub mod NoBrackets
pub mod ReadOn
pub mod TextEnds
pub mod Small
pub mod PairsLeft
pub mod Fused
pub mod Written
pub mod Apart
pub mod PlainKept
pub mod PlainPairs
pub mod PlainLengths
pub mod PlainTypes
pub mod PairTypes
pub mod RightNsms
pub mod RightLevels
pub mod RightTypes
pub mod PlainLevels
pub mod ShortLevels
pub mod LeftTexts
pub mod Mapped
pub mod EachOnce
pub mod KeptLevels
pub mod Directions
pub mod DirectionsAt
pub mod OverrideLevels
pub mod Cuts
pub mod MovedPairs
pub mod FramedPairs
pub mod MiddlePairs
pub mod PairPlaces
pub mod CutPairs
pub mod CutLevels
pub mod CutClasses
pub mod CutEnds
pub mod EndLevels
pub mod CutParagraph
pub mod EditedLevels
pub mod FollowedEdits
pub mod Spliced
mod CutExamples
