pub mod Fronts
pub mod Questions
pub mod Keys
pub mod Signed
pub mod Ends
pub mod BothEnds
pub mod Builtins
pub mod DecimalOrder
