pub mod Fronts
pub mod Rewritten
pub mod Answered
