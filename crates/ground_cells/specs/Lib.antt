pub mod CellBoxes
pub mod ExtentBoxes
