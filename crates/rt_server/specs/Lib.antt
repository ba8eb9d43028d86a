-- The definitions that the contracts of one server cite.
pub mod Account
pub mod Arrival
pub mod Recharge
pub mod Reserve
pub mod Fit
