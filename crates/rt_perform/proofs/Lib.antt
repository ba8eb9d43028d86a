-- The lemmas of this crate.
pub mod Common
pub mod LineLemmas
pub mod LayLemmas
pub mod ObjectLemmas
pub mod ProducedLemmas
pub mod TaskLemmas
pub mod SaidLemmas
pub mod SessionLemmas
pub mod GivenLemmas
