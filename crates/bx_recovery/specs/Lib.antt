pub mod Beginnings
pub mod Recovery
pub mod Refusals
