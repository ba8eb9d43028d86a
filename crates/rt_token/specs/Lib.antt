-- The definitions of this crate.
pub mod Word
pub mod Number
pub mod SpacedWords
pub mod Slice
pub mod Tokens
pub mod SourceLines
pub mod Grammar
