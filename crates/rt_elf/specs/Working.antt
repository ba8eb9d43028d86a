-- Definitions that contracts of private functions alone cite.
pub mod Checks
pub mod Keeping
pub mod Making
