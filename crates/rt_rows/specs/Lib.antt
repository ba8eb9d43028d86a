-- The definitions of this crate.
pub mod Sets
pub mod Instructions
pub mod Executing
pub mod Admitting
pub mod Scheduling
pub mod Sleeping
pub mod Calling
pub mod Certifying
pub mod Reserving
pub mod Faulting
pub mod Reporting
pub mod Listing
pub mod OneHistory
