-- Definitions that only private contracts cite.
pub mod LeftOut
pub mod SessionResult
pub mod Done
pub mod Naming
