pub mod Table
pub mod Heard
