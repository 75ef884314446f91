pub mod Calls
pub mod Answering
pub mod Example12
