pub mod CallContracts
