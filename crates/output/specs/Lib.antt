pub mod Output
pub mod Result
