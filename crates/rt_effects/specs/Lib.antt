-- The definitions of this crate.
pub mod Did
pub mod TraceText
pub mod Working
pub mod laws
