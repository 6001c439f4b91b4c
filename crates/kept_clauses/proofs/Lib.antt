pub mod Marked
pub mod Lines
pub mod Resting
