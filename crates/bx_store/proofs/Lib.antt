pub mod Elsewhere
pub mod Examples
pub mod FramesRead
pub mod SaveExamples
pub mod TalkSteps
