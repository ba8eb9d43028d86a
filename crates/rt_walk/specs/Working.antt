-- Definitions that only private contracts cite.
pub mod Reached
pub mod Opened
pub mod Kept
pub mod Led
pub mod Piece
