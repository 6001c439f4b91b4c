pub mod Terms
pub mod OrderedSums
pub mod BlockSteps
