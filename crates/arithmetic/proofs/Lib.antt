pub mod Lookup
pub mod Steps
pub mod Examples
