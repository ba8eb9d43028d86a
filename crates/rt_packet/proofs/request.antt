pub mod HexLemmas
pub mod MarkLemmas
pub mod SpelledLemmas
pub mod SpelledLaws
pub mod TakenLemmas
pub mod TakenLaws
pub mod LineLemmas
