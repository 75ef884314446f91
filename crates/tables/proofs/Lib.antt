pub mod Related
pub mod Loops
pub mod Rows
pub mod CallContracts
