pub mod Headers
pub mod Told
