pub mod Levels
pub mod Applying
pub mod Undo
pub mod Trails
