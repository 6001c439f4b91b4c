pub mod Answer
pub mod Breaks
pub mod Lines
pub mod Text
