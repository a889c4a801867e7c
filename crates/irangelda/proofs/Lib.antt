pub mod AsksNothing
pub mod Buffers
pub mod Places
