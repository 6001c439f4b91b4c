pub mod Answers
pub mod Cover
pub mod Reasons
pub mod Plans
pub mod Repeats
pub mod CutTo
pub mod Singles
