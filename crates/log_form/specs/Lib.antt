pub mod Acceptance
pub mod Literals
pub mod Parts
