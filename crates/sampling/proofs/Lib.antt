pub mod Codes
pub mod Ties
