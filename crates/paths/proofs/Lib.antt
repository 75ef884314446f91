pub mod Whole
pub mod OneName
pub mod SplitContext
pub mod PathSearch
pub mod Steps
pub mod Along
pub mod CallContracts
pub mod Laws
