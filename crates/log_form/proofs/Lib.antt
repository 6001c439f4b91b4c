pub mod WithForm
pub mod BoundSteps
