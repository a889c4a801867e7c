pub mod Fours
pub mod Digits
pub mod Names
pub mod Values
pub mod Whole
