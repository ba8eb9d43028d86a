-- Lemmas.
pub mod DumpLemmas
