pub mod Computing
mod LateStart
mod NowPast32Bits
mod OneHistory
mod BeatAlone
mod Kept
