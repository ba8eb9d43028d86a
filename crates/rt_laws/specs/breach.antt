-- The definitions of this crate.
pub mod Breach
pub mod Working
