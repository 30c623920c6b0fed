pub mod Pages
pub mod Ties
