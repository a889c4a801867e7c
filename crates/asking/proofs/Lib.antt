pub mod Offsets
pub mod Asking
pub mod Positions
pub mod Parts
pub mod Next
