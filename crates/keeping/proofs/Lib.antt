pub mod Room
pub mod Counting
pub mod Placing
pub mod Keeping
