-- Questions to the user and their answers, and what is told of a unit: lemmas.
pub mod OneMore
pub mod Hexadecimal
pub mod Numbers
pub mod Others
pub mod Printable
pub mod Examples
pub mod TellExamples
