pub mod Making
pub mod EachKind
pub mod Problems
pub mod Definitions
