pub mod Differences
pub mod OperatedValues
pub mod Joining
pub mod FixedSums
pub mod Factors
pub mod Between
pub mod TreeSides
