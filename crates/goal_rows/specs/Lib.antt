pub mod Quotients
pub mod Covers
pub mod Rows
