pub mod Numbers
pub mod LowWord
