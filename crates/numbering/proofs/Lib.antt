pub mod Grants
pub mod Numbering
pub mod Answers
pub mod Examples
