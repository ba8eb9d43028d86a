-- The definitions of this crate.
pub mod Extent
pub mod Reads
pub mod Working
