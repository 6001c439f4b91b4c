pub mod Failing
pub mod CellsFirst
pub mod Marking
pub mod Rests
pub mod Counting
pub mod Repairing
