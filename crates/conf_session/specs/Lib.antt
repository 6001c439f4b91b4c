pub mod Standing
pub mod Failed
pub mod Keeping
pub mod Keys
pub mod Steps
