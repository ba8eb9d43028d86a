-- Definitions that contracts of private functions alone cite.
pub mod Listed
pub mod Spelled
