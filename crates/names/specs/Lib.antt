pub mod BuiltInNames
pub mod Reader
pub mod Parts
pub mod Names
pub mod Laws
pub mod Calls
