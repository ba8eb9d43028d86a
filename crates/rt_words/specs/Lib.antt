-- The definitions of this crate.
pub mod Limits
pub mod Base
pub mod Modular
pub mod Hex
pub mod Chain
pub mod Found
pub mod Run
pub mod OrMemory
