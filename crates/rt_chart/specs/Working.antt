-- Definitions that only private contracts cite.
pub mod Drawn
pub mod Hundreds
pub mod Titled
