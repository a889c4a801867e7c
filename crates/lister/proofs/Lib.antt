pub mod Head
pub mod Lines
pub mod Rows
pub mod Listing
