pub mod At
pub mod Held
pub mod Calls
