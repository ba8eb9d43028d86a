-- The definitions of this crate.
pub mod Ids
pub mod Stops
pub mod Replies
pub mod Registers
pub mod Bytes
pub mod Description
pub mod Plain
pub mod Working
