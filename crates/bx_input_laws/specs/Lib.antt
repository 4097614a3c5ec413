pub mod Events
pub mod Hearing
pub mod Laws
pub mod Reading
pub mod Strings
