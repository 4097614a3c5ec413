-- Shared by the programs that lay out a text: command-line options, input files, and exit statuses: definitions.
pub mod Arguments
pub mod Ending
pub mod Files
pub mod Reading
pub mod Rules
pub mod Shown
pub mod Tables
