pub mod Cells
pub mod Runs
pub mod Packets
pub mod Emitted
