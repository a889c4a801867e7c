pub mod Scalers
