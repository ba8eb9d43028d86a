-- The definitions of this crate.
pub mod TextKind
pub mod TextMeans
pub mod Finishes
pub mod Prints
pub mod Fails
pub mod Judges
pub mod Working
