-- The definitions of this crate.
pub mod Faults
pub mod FaultText
pub mod Ends
pub mod Sets
pub mod Alone
pub mod Opening
pub mod Overloaded
