pub mod LawExamples
pub mod Examples
pub mod FirstBetween
pub mod Following
