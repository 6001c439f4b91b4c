pub mod Ascending
pub mod Leaves
pub mod Paths
pub mod Reading
pub mod Spelling
pub mod Views
