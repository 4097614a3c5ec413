pub mod Taking
pub mod Cuts
pub mod Keeping
pub mod Standing
mod OtherFinals
pub mod Heads
pub mod Feeding
pub mod Characters
pub mod Sequences
pub mod Sides
pub mod PartsOfInput
mod Examples
