-- The definitions of this crate.
pub mod Windows
pub mod Jobs
pub mod Waits
pub mod Stretches
pub mod Listed
pub mod Marks
pub mod Counted
pub mod Budgets
pub mod Misses
pub mod Drawing
pub mod Standing
pub mod Drawn
pub mod Working
