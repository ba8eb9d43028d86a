-- Definitions that only private contracts cite.
pub mod Marked
pub mod Going
pub mod Touched
