-- The lemmas of this crate.
pub mod Common
pub mod TalkLemmas
pub mod FillLemmas
pub mod RunLemmas
