pub mod Marks
pub mod Judged
