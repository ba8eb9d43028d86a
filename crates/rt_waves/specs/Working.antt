-- Definitions that only private contracts cite.
pub mod Telling
pub mod Stepped
pub mod Visiting
pub mod Ordered
pub mod Binary
pub mod PcLines
pub mod Going
