pub mod Fits
pub mod Phases
pub mod Refusals
pub mod Effects
