pub mod Calls
pub mod Measured
