pub mod Graph
pub mod Cells
pub mod Search
pub mod Refusals
pub mod Lists
