-- The definitions of this crate.
pub mod Desk
pub mod making
pub mod memory
pub mod reading
pub mod reading_laws
