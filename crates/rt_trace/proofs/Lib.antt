pub mod Common
pub use Rattle.rt_sink.proofs.Parts
pub mod LineTexts
pub mod EntryLemmas
pub mod TaskLemmas
pub mod Places
