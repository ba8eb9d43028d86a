-- The definitions of this crate.
pub mod ExitStatus
pub mod FirstLine
pub mod Paths
pub mod Inputs
pub mod Objects
pub mod Packed
pub mod Laid
pub mod Given
pub mod Produced
pub mod Noted
pub mod Performs
pub mod Working
pub mod laws
