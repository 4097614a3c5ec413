-- Undo groups: what one press of a key takes back or makes again: lemmas.
pub mod Bisected
pub mod Steps
pub mod RunLaws
pub mod Examples
