pub mod Tree
pub mod Names
pub mod Rows
