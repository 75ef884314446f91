pub mod Update
pub mod Writing
pub mod Laws
