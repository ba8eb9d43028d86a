-- The definitions of this crate.
pub mod PlaceStop
pub mod StopSlots
pub mod Stopping
pub mod FirstStop
pub mod Looking
pub mod Whose
pub mod Session
pub mod Answer
pub mod Line
pub mod Talk
pub mod Working
pub mod reply
