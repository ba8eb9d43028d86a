-- Definitions that only private contracts cite.
pub mod Step
pub mod Trying
