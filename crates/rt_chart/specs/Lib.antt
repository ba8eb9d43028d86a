-- The definitions of this crate.
pub mod Scale
pub mod Looks
pub mod Ink
pub mod Escapes
pub mod Rows
pub mod Axis
pub mod MarkText
pub mod MissText
pub mod Key
pub mod Labels
pub mod ChartText
pub mod Standing
pub mod Working
