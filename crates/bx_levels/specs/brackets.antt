-- Bracket pairs and the types they resolve to (UAX #9, 3.1.3 and 3.3.5): definitions.
pub mod Pairs
pub mod Search
pub mod Resolve
pub mod Clear
pub mod Laws
