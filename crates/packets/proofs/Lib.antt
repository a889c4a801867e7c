pub mod Headed
pub mod Packets
