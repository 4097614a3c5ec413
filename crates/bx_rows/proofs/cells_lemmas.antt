-- The units of a paragraph's body: its grapheme clusters, each with the face that it shows: lemmas.
pub mod FaceSteps
pub mod SimpleBreaks
pub mod SimpleColumns
pub mod SimpleUnits
pub mod SimplePush
pub mod RangeFacts
pub mod Printable
pub mod Standing
pub mod BreakTables
pub mod Locality
pub mod Rest
pub mod OpenCluster
pub mod Examples
pub mod Blocks
