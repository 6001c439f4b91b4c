pub mod Forms
pub mod Worlds
pub mod Merged
pub mod Sums
