pub mod Columns
pub mod Faults
pub mod Known
pub mod Meets
pub mod Rows
