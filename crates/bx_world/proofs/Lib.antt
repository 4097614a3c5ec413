pub mod Terminals
pub mod Keys
pub mod Steps
pub mod Calls
pub mod Schedules
pub mod Ended
pub mod Brought
pub mod Live
pub mod InputCursors
pub mod Opened
pub mod Sights
pub mod Fits
pub mod Begun
pub mod Woven
pub mod Runs
mod LawExamples
mod ClauseExamples
