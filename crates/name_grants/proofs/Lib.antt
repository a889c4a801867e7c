pub mod Fronts
pub mod Parts
pub mod Places
pub mod Left
pub mod Told
pub mod Answered
