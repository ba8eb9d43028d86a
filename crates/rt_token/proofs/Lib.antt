pub mod DigitLemmas
pub mod SpacedWordLaws
pub mod TokenLemmas
pub mod GrammarLemmas
pub mod PartLemmas
pub mod SourceLineLemmas
