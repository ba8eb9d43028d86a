-- Lemmas of this crate.
pub mod LineLemmas
pub mod Exactly
