pub mod TablesData
pub mod Texts
pub mod Replays
pub mod Opened
pub mod Causes
pub mod Examples
pub mod RefusalExamples
