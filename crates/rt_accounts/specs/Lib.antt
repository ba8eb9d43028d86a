-- The definitions of this crate.
pub mod Reporting
pub mod Accounting
pub mod JobListing
pub mod Failures
pub mod FailureText
pub mod Working
