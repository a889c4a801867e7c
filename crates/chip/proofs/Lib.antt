pub mod BothSides
pub mod House
pub mod Switch
