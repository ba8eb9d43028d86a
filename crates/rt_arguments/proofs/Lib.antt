-- Lemmas.
pub mod OptionLemmas
pub mod FailingLemmas
pub mod LaidLemmas
