mod Computing
mod Windows
mod Scales
mod Breaches
