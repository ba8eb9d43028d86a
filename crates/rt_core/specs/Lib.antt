-- The definitions of this crate.
pub mod Kept
pub mod Advance
pub mod Plain
pub mod Next
pub mod View
pub mod Loading
pub mod Working
