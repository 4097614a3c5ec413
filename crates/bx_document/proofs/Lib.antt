pub mod PutOn
pub mod CopiedRows
pub mod RowGlyphs
pub mod Fitting
pub mod RoomBehind
pub mod CutLines
mod FirstRow
mod InputRow
mod ShownName
pub mod TurnedWhere
pub mod RegionColumns
pub mod TurnedSlots
pub mod RegionRow
pub mod RowsDrawn
pub mod LastPlace
pub mod TouchedPlace
pub mod TouchedSpan
pub mod LineSpan
pub mod PlaceAfter
pub mod PlaceBehind
pub mod PlacesKept
pub mod SameState
pub mod ShownTop
pub mod NextCharacters
pub mod LastPoints
pub mod FirstSeparators
pub mod SeparatorsRead
pub mod UnitLevels
pub mod PlaceLevels
mod Examples
mod StatusExamples
pub mod TurnedExamples
mod LineExamples
mod PlaceExamples
mod LevelExamples
pub mod WrappedPlace
pub mod ReplacedPlace
pub mod ExchangedPlace
pub mod InsertedBefore
pub mod Indents
