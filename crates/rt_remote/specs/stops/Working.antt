-- Definitions that only private contracts cite.
pub mod Stepped
pub mod Shown
pub mod Ended
pub mod Left
pub mod Looks
