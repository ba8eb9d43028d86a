-- The proofs of this crate.
pub mod Common
pub mod SayLemmas
pub mod FaultLemmas
pub mod ConversationLemmas
pub mod KeptLemmas
pub mod PlacedLemmas
pub mod LineLemmas
pub mod OpenLemmas
