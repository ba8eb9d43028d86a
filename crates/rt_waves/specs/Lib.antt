-- The definitions of this crate.
pub mod Waves
pub mod Scale
pub mod WavesText
pub mod Standing
pub mod Working
pub mod laws
pub mod dump
