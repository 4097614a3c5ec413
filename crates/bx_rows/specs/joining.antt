-- Joined letters: which letters of a body join, by joining types and levels, and the forms in which they are shown: definitions.
pub mod Joining
pub mod Nearest
pub mod Places
pub mod JoinedText
pub mod Laws
