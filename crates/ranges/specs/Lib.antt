pub mod Ranges
pub mod Calls
pub mod Signed
pub mod Decimals
