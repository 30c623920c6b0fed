pub mod Places
pub mod Gathered
pub mod Decimals
pub mod Hex
pub mod Splits
