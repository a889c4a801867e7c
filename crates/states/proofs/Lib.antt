pub mod Formed
pub mod Counted
pub mod Copied
