-- The definitions of this crate.
pub mod Seen
pub mod Sink
pub mod Limited
pub mod OverWrite
pub mod Buffered
pub mod Offers
