pub mod Walk
pub mod Learnt
pub mod Turns
