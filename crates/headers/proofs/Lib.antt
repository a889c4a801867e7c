pub mod Openings
pub mod Groups
