-- Lemmas.
pub mod Common
pub mod BinaryLemmas
pub mod BinaryTables
pub mod BlockLemmas
pub mod PartLemmas
pub mod VisitLemmas
pub mod GoingLaws
pub mod SoundLemmas
pub mod StepLaws
pub mod StateLaws
pub mod TextLaws
pub mod IdleLaws
pub mod NewLemmas
pub mod LineLemmas
pub mod WavesLaws
