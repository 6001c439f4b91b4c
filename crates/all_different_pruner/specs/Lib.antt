pub mod Intervals
pub mod Counters
pub mod Sweeps
pub mod Within
