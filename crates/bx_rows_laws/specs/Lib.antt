pub mod Laws
pub mod OrderLaws
pub mod JoiningLaws
pub mod TouchingLetters
