pub mod Sinks
pub mod Parts
pub mod Flushed
pub mod Said
