pub mod Emitted
pub mod Closed
