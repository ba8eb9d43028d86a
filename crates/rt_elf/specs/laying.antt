-- The definitions of this crate.
pub mod Room
pub mod LaidData
pub mod FaultText
