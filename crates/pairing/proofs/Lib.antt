pub mod Entry
pub mod Kept
pub mod Mended
pub mod Ignores
pub mod Examples
