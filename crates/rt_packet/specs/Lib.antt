-- The definitions of this crate.
pub mod Packet
pub mod Frame
pub mod Framed
pub mod Working
pub mod request
pub mod answer
