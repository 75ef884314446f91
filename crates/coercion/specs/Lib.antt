pub mod Coerce
pub mod Dmn
pub mod Coercion
pub mod Calls
