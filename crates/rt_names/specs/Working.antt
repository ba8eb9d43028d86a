-- Definitions that only private contracts cite.
pub mod Nearest
pub mod Rising
pub mod Naming
