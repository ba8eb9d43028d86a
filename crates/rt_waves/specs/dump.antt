-- The definitions of this crate.
pub mod Dumping
pub mod Working
