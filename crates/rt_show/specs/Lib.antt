-- The definitions of this crate.
pub mod ObjectShown
pub mod SetShown
pub mod listing
