-- Lemmas of this crate.
pub mod RoomLemmas
pub mod LaidLemmas
