pub mod Check
pub mod Ending
pub mod Faults
pub mod Run
pub mod Files
pub mod Start
pub mod Telling
