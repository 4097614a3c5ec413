pub mod Command
pub mod Printing
