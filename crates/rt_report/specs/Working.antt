-- Definitions that only private contracts cite.
pub mod Tallied
pub mod Plainly
pub mod Waiting
pub mod Finishing
pub mod Detailing
pub mod Seen
