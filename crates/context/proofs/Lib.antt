pub mod CallContracts
pub mod Example12
