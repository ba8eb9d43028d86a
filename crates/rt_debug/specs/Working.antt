-- Definitions that only private contracts cite.
pub mod Marks
pub mod Watch
