-- The definitions of this crate.
pub mod Calm
pub mod shown
