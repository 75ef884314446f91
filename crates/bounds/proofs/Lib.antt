pub mod ReducedSizes
pub mod CallContracts
