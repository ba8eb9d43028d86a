-- The definitions of this crate.
pub mod Marks
pub mod Points
pub mod Events
pub mod Access
pub mod Met
pub mod Working
