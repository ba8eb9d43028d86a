pub mod NameLemmas
pub mod ItemLemmas
