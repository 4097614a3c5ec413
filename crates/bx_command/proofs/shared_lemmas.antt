-- Shared by the programs that lay out a text: command-line options, input files, and exit statuses: lemmas.
pub mod Commands
pub mod Examples
