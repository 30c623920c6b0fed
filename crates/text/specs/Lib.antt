pub mod Bytes
pub mod Words
pub mod Numbers
pub mod Hex
pub mod Lines
pub mod Output
