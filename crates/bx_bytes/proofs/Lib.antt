pub mod Encoded
pub mod Patterns
pub mod Codes
pub mod Fronts
mod Examples
