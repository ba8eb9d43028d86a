-- The definitions of this crate.
pub mod Opened
pub mod Certified
pub mod Extremes
pub mod Refused
pub mod RefusalText
pub mod Working
pub mod CertifiedSet
