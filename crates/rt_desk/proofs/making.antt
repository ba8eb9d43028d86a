-- The lemmas of this module.
pub mod Folders
pub mod Steps
