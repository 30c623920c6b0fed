pub mod Lists
pub mod Words
pub mod Searches
pub mod Moves
pub mod Changes
pub mod Stretches
pub mod Checks
