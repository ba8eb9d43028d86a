-- The definitions of this crate.
pub mod Attempts
pub mod Rows
pub mod RowsText
pub mod CallgrindText
pub mod Brackets
pub mod Needs
pub mod NeedsText
pub mod ProfileText
pub mod NeedCounts
pub mod Counted
pub mod Standing
pub mod Working
pub mod laws
