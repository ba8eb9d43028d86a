-- The definitions of this crate.
pub mod NextByte
pub mod Saying
pub mod Conversed
pub mod Responds
pub mod Dialogue
pub mod Working
pub mod remote
