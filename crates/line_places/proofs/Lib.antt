pub mod Along
pub mod Runs
pub mod Names
pub mod Most
