pub mod Page
pub mod BodyLines
