pub mod ClaimLaws
pub mod EqualLaws
pub mod NoughtLaws
