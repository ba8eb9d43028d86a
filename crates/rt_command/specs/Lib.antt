-- The definitions of this crate.
pub mod Refusals
pub mod Verbs
pub mod Commands
pub mod CommandLine
pub mod Working
