pub mod Sections
pub mod Lowest
