pub mod Below
pub mod Ties
