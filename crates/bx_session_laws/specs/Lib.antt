pub mod Recovery
pub mod Anew
pub mod Devices
pub mod Parts
pub mod Memory
