-- Lemmas of this crate.
pub mod ShownLemmas
