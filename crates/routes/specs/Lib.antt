pub mod Closed
pub mod Paths
pub mod Trails
