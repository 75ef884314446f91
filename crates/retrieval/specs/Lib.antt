pub mod Retrieve
pub mod Filling
pub mod Calls
pub mod ByNames
pub mod Retrieval
pub mod OverBytes
