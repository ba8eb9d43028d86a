-- The definitions of this crate.
pub mod ObjectFile
pub mod ObjectReading
pub mod ReadFaults
pub mod ImageFaults
pub mod FaultText
pub mod SystemFile
pub mod SystemReading
pub mod Working
