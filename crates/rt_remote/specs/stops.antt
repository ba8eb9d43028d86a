-- The definitions of this crate.
pub mod Looked
pub mod Ahead
pub mod Onward
pub mod Backward
pub mod OneBack
pub mod Working
