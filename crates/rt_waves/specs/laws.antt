-- The definitions of this crate.
pub mod Windows
pub mod Reader
pub mod Lines
