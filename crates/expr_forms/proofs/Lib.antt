pub mod Growing
pub mod SumsKept
pub mod Inside
pub mod Configured
pub mod PartValues
pub mod Trees
