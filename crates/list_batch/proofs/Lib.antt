pub mod Puts
pub mod Left
