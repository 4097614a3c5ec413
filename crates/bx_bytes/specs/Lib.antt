pub mod Grammar
pub mod Pattern
pub mod Utf8
pub mod Writing
