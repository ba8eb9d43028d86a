-- The definitions of this crate.
pub mod SetFile
pub mod SetLines
pub mod SaidLines
pub mod Misfit
pub mod FirstFault
pub mod Packing
pub mod FaultText
pub mod Working
