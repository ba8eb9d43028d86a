-- The definitions of this crate.
pub mod Access
pub mod Span
pub mod Numbering
pub use Rattle.rt_words.specs.Base
pub use Rattle.rt_words.specs.Limits
