pub mod NameLemmas
pub mod LineLemmas
pub mod KeptLemmas
pub mod PlaceLemmas
pub mod RefusedLemmas
