pub mod Theorems
pub mod Rules
