-- Definitions that only private contracts cite.
pub mod Budget
pub mod Room
pub mod Exceeding
