pub mod Starts
pub mod Examples
pub mod CommandExamples
pub mod shared_lemmas
pub mod FirstFaults
