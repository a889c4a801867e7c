pub mod Counts
pub mod Whole
pub mod Loop
