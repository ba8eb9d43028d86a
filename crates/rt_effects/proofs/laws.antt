-- Lemmas of this crate.
pub mod Registers
pub mod Stays
pub mod Decides
pub mod Moves
