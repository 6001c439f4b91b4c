pub mod Findings
pub mod Problems
pub mod Rounds
pub mod Runs
pub mod Wanted
pub use Rattle.ground_model.specs.Objectives
