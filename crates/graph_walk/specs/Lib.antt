pub mod Walk
pub mod Steps
pub mod Cycles
pub mod Ancestors
pub mod Children
