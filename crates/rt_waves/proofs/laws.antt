-- Lemmas of this crate.
pub mod Counting
pub mod RunningLaw
pub mod WindowLaws
pub mod IdleLaw
pub mod CodeLaws
pub mod ReaderLaws
pub mod LineLaws
pub mod CountLaws
