pub mod HexDigits
pub mod PaddedHex
pub mod Chains
pub mod Founds
pub mod RamSizes
