pub mod Arms
pub mod Bits
pub mod Lists
pub mod Rest
pub mod Stores
pub mod Tests
