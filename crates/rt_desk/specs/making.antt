-- The definitions of this module.
pub mod Disk
pub mod Making
pub mod Working
