pub mod Characters
pub mod Directions
pub mod Glyphs
