-- The paragraphs of a text: an index that follows its edits: definitions.
pub mod Paragraphs
pub mod Ended
pub mod Scan
pub mod LeadBytes
pub mod ScanRanges
pub mod Capacity
pub mod OneBlock
pub mod Flat
pub mod Spots
pub mod Touched
pub mod Blocks
pub mod Index
pub mod Walk
pub mod Laws
