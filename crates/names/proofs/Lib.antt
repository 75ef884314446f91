pub mod BuiltInNames
pub mod Trimming
pub mod Pieces
pub mod Reader
pub mod NameNew
pub mod CallContracts
pub mod Theorems
pub mod Laws
