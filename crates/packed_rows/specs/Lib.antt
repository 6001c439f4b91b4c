pub mod Loads
pub mod Plans
pub mod SmallRows
