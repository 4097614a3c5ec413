-- Undo groups: what one press of a key takes back or makes again: definitions.
pub mod Groups
pub mod Model
pub mod Laws
