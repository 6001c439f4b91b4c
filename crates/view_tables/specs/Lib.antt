pub mod Cells
pub mod Chosen
pub mod Weights
