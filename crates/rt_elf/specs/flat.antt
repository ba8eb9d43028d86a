-- The definitions of this crate.
pub mod ElfMagic
pub mod Shown
pub mod FlatNames
pub mod RefusedWord
pub mod Kept
pub mod Misplaced
pub mod FlatEntry
pub mod FlatObject
pub mod FaultText
pub mod Working
