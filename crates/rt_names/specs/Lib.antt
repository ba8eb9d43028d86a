-- The definitions of this crate.
pub mod Parts
pub mod TaskName
pub mod TaskNames
pub mod TaskWords
pub mod Working
