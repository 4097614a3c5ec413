pub mod Entry
pub mod Laws
pub mod Pointed
pub mod Views
