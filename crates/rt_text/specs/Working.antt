-- Definitions that contracts of private functions alone cite.
pub mod Contents
pub mod Rows
