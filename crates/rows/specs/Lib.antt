pub mod Rows
pub mod Plans
pub mod Loops
pub mod Nets
