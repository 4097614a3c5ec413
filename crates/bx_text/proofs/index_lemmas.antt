-- The paragraphs of a text: an index that follows its edits: lemmas.
pub mod Totals
pub mod Written
pub mod Flats
pub mod Spliced
mod Examples
pub mod Cuts
pub mod Bodies
pub mod Seams
mod Counts
mod Edits
pub mod Changes
mod Rewritten
pub mod FirstBytes
pub mod Scans
pub mod Firsts
pub mod Beside
pub mod Turns
pub mod Followed
pub mod Reached
pub mod Asked
pub mod Walks
