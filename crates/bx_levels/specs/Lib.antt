pub mod embedding
pub mod brackets
pub mod resolve
