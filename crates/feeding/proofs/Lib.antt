pub mod Runs
pub mod Answers
pub mod Steps
pub mod Promises
pub mod Gives
pub mod Examples
