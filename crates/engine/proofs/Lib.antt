pub mod Bits
pub mod Closing
pub mod Opening
pub mod Feeding
