pub mod CodeLaws
pub mod ReadSteps
pub mod WriteSteps
pub mod PackedLaws
