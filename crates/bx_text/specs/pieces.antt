-- A sequence of pieces of text in a balanced tree, searched and split by offset: definitions.
pub mod Pieces
pub mod Tree
pub mod Bytes
