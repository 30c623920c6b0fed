pub mod Causes
pub mod Records
pub mod Sessions
pub mod Rules
pub mod Steps
pub mod Formed
