-- Definitions that only private contracts cite.
pub mod LineEnd
pub mod NextLine
pub mod Places
