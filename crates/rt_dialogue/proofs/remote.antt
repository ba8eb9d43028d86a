-- The proofs of this crate.
pub mod BeatLemmas
pub mod WaitLemmas
pub mod ConsoleLemmas
pub mod AskLemmas
pub mod TookLemmas
pub mod ReplyLemmas
