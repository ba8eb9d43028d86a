-- The lemmas of this crate.
pub mod EndsLemmas
pub mod FinishLemmas
pub mod PartLemmas
pub mod JudgeLemmas
pub mod CertificateLemmas
