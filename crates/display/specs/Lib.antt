pub mod Texts
pub mod Tables
pub mod Marks
pub mod Writing
pub mod Calls
