pub mod Cells
pub mod Columns
pub mod Grid
pub mod Values
pub mod Views
