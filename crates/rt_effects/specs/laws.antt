-- The definitions of this crate.
pub mod Kept
pub mod Exact
pub mod Moved
