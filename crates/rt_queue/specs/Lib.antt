-- The definitions that the contracts of queues cite.
pub mod Keys
pub mod Order
pub mod Least
pub mod Working
pub mod heap
