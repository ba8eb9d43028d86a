-- The definitions of this crate.
pub mod Offered
pub mod Laws
pub mod Lines
pub mod Fits
