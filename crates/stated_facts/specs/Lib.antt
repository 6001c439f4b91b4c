pub mod Claims
pub mod Constants
pub mod Rows
