-- The definitions of this crate.
pub mod Supply
pub mod Periodic
pub mod OneTask
pub mod OpenJob
pub mod Work
pub mod Alone
pub mod Certified
pub mod Seen
pub mod Planned
pub mod Long
pub mod SeveralPeriods
pub mod Working
pub mod breach
