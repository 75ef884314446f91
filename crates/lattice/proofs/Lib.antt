pub mod Branches
pub mod SortedMerge
pub mod SignatureLoop
pub mod BoundTrees
