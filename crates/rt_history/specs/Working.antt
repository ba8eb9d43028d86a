-- Definitions that only private contracts cite.
pub mod Step
pub mod Bounded
pub mod EndsBusy
