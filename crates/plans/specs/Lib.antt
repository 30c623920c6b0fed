pub mod Values
pub mod Nets
pub mod Rows
pub mod Numbers
pub mod Refusals
pub mod Order
pub mod Reading
pub mod Meaning
