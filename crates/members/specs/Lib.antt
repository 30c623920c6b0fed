pub mod Codes
pub mod Formed
pub mod Rules
