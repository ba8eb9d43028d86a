-- Definitions that only private contracts cite.
pub mod Pieces
pub mod Window
pub mod Kept
