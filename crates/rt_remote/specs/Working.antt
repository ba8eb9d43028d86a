-- Definitions that only private contracts cite.
pub mod Kept
pub mod Choices
pub mod Kinds
