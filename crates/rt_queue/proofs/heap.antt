-- The lemmas of this crate.
pub mod HeapOrderLemmas
pub mod PlacesLemmas
pub mod SiftLemmas
pub mod RowLemmas
pub mod RekeyLemmas
