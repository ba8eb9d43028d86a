-- The definitions of this crate.
pub mod NamedEntry
pub mod PathName
pub mod FaultText
pub mod Working
