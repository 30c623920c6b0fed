pub mod Tests
pub mod Searches
pub mod Ties
pub mod Changes
pub mod Effects
