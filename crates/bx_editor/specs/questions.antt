-- Questions to the user and their answers, and what is told of a unit: definitions.
pub mod Answers
pub mod Names
pub mod KeyLetters
pub mod Told
pub mod Laws
