pub mod PartPlaces
pub mod LowWord
