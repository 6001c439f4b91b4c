pub mod SetSplits
pub mod Walking
