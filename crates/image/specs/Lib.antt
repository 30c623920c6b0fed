pub mod Image
pub mod Whole
pub mod Writing
pub mod Compiling
