-- The definitions of this crate.
pub mod Jobs
pub mod Position
pub mod Met
pub mod Events
pub mod FirstMet
pub mod LastMet
pub mod Walking
pub mod Working
