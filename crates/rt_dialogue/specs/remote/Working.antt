-- Definitions that only private contracts cite.
pub mod Runs
pub mod Waits
pub mod Took
