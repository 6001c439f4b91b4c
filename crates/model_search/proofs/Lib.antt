pub mod FoundRuns
pub mod RepairProblems
pub mod Sizes
pub mod Solutions
