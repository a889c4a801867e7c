pub mod Marks
pub mod Judged
pub mod Ends
