pub mod Parts
pub mod Cores
pub mod Suspects
pub mod Searching
