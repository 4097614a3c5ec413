-- A sequence of pieces of text in a balanced tree, searched and split by offset: lemmas.
pub mod Cuts
pub mod Ends
pub mod Depths
pub mod Begun
