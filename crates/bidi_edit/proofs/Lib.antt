pub mod Edited
pub mod Frames
pub mod Examples
pub mod CheckExamples
