-- The definitions of this crate.
pub mod Shown
pub mod ShownText
pub mod ReplyText
