-- Lemmas of this crate.
pub mod Hex
pub mod PlaceLemmas
pub mod NamingLemmas
pub mod PathLemmas
