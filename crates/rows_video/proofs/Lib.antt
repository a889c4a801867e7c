pub mod Registers
pub mod Scalers
