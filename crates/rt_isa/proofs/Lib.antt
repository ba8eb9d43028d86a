pub mod Common
pub mod Rows
pub mod OneRow
pub mod Masks
pub mod Words
pub mod Digits
pub mod AsciiLemmas
pub mod Names
