pub mod Known
pub mod Asked
