pub mod NumberRanges
pub mod Points
