pub mod JoinedTables
pub mod LineLemmas
pub mod WordLemmas
pub mod CharacterLemmas
pub mod HexLemmas
pub mod ClassLemmas
pub mod PaintLemmas
pub mod AnswerLemmas
pub mod MapLemmas
pub mod FormLemmas
pub mod LawLemmas
pub mod FormLaws
pub mod ReadingLemmas
pub mod BoundLemmas
pub mod SampleLines
mod Examples
mod JoiningExamples
mod LawExamples
