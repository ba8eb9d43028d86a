pub mod Signed
pub mod Changes
pub mod SlotLemmas
pub mod Accesses
pub mod CallLemmas
