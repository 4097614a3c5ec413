pub mod Lasting
pub mod Alike
pub mod PressedAlike
pub mod SavedAlike
pub mod Names
pub mod WorkKept
pub mod AskedAlike
pub mod PutAlike
pub mod ReplacingAlike
pub mod KeysAlike
pub mod Versions
pub mod Deeds
pub mod Recovered
pub mod TopsKept
pub mod TopsAlike
pub mod RecoveredParts
pub mod ReplayTraces
pub mod GivenBack
pub mod PaintedAnew
pub mod WholeLog
pub mod Examples
pub mod LawExamples
pub mod ReplayExamples
pub mod PasteExamples
mod ClauseExamples
mod LogExamples
pub mod QuitsEndParts
pub mod WholeSaves
mod PartExamples
