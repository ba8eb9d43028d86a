-- Lemmas of this crate.
pub mod Common
pub mod PieceLemmas
pub mod DigitLemmas
pub mod WordLemmas
pub mod KeptLemmas
pub mod WindowLemmas
