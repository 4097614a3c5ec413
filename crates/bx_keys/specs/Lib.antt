pub mod Decoder
pub mod Items
pub mod Keys
pub mod Laws
pub mod Waiting
