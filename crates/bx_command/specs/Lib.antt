pub mod Check
pub mod Command
pub mod Inputs
pub mod Journal
pub mod Lines
pub mod Options
pub mod shared
