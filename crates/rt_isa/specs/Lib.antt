-- The definitions of this crate.
pub mod Bits
pub mod Numbers
pub mod Fields
pub mod Table
pub mod Print
pub mod Working
