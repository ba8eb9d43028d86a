-- Definitions that only private contracts and invariants cite.
pub mod Games
