pub mod Asking
pub mod Sending
pub mod Phases
