-- Lemmas of this crate.
pub mod SumLemmas
pub mod AddressLaws
pub mod PartLaws
pub mod MostSums
pub mod NeedSums
pub mod TickSums
