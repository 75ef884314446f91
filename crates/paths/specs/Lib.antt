pub mod Paths
pub mod Places
pub mod Way
pub mod Calls
pub mod Laws
