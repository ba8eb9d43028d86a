-- The definitions of this crate.
pub mod Charts
pub mod Rulers
pub mod Keys
pub mod Files
pub mod Overloads
pub mod Names
pub mod Texts
pub mod Waves
pub mod ElfFiles
pub mod ElfNames
