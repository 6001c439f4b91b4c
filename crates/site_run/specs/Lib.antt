pub mod Ending
pub mod Runs
pub mod Status
