-- The definitions of this crate.
pub mod Numbers
pub mod Ids
pub mod Actions
pub mod HexLines
pub mod Points
pub mod Requests
pub mod SpelledParts
pub mod Spelled
pub mod MonitorLine
pub mod Working
