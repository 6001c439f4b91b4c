pub mod Disjunctions
pub mod Lines
pub mod Parts
pub mod Tests
