pub mod Typing
pub mod Calls
