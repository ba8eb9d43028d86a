-- The definitions of this crate.
pub use Rattle.rt_sink.specs.Sink
pub use Rattle.rt_sink.specs.Limited
pub use Rattle.rt_sink.specs.OverWrite
pub use Rattle.rt_sink.specs.Buffered
pub use Rattle.rt_sink.specs.Offers
pub mod RegsLine
pub mod OutLine
pub mod HistoryText
pub mod TaskText
pub mod RunText
pub mod Placed
pub mod Working
