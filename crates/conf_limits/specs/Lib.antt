pub mod Measures
pub mod Limits
pub mod Counting
