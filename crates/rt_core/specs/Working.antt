-- Definitions that only private contracts cite.
pub mod Tied
pub mod Going
pub mod First
pub mod Ran
pub mod PlainSteps
