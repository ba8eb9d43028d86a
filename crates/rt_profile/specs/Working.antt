-- Definitions that only private contracts cite.
pub mod NeedsTold
pub mod Told
