-- The definitions of this crate.
pub mod Beats
pub mod Packets
pub mod Dialogue
pub mod Working
