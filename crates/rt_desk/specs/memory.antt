-- The definitions of this crate.
pub mod MemoryDesk
