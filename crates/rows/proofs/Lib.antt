pub mod Loops
pub mod Plans
