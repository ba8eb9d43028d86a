-- Lemmas of this crate.
pub mod Common
pub mod NamerLemmas
pub mod ShortLemmas
pub mod PlaceLemmas
pub mod NameLemmas
