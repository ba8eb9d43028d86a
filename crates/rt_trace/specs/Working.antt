-- Definitions that only private contracts cite.
pub mod Cut
pub mod Decimals
pub mod Digits
pub mod Lines
