-- Lemmas of this crate.
pub mod Common
pub mod PartLemmas
pub mod WalkLemmas
pub mod NameLemmas
pub mod StandingLaws
pub mod SoundLemmas
pub mod TextLemmas
pub mod RamLemmas
pub mod ShapeLaws
pub mod CountLaws
pub mod MostLaws
pub mod BracketLaws
pub mod NeedLaws
pub mod NeedRowLaws
pub mod NeedTextLemmas
pub mod TextLaws
