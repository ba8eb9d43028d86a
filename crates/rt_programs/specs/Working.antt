-- Definitions that only private contracts cite.
pub mod LoneCertified
pub mod SetOpened
pub mod Told
