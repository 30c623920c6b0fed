pub mod Laws
pub mod Passes
pub mod Memberwise
pub mod Formed
pub mod Counts
pub mod Every
